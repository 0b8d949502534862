-- What only proofs and inner functions need: the totals that the selection works with, and bounds by which numbers fit
-- their fields.
pub mod Selection
pub mod Bounds
