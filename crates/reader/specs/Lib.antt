-- A sheet read from bytes. A reader must believe all of it.
pub mod Reading
