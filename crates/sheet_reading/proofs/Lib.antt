pub mod FieldsRead
pub mod RecordsRead
pub mod NamesRead
pub mod SheetRead
