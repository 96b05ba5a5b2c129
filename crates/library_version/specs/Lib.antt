pub mod LibraryVersion
