pub mod OrderedSearch
pub mod KnownSearches
