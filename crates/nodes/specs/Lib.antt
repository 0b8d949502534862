-- Sets of nodes in a number. A reader must believe all of it.
pub mod Sets
