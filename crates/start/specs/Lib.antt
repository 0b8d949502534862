-- In reading order: the entry of one task, Start, and Start on a sheet and on its wide form.
pub mod Fresh
pub mod Start
pub mod Wide
