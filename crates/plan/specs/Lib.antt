pub mod Orders
pub mod Totals
pub mod Cells
pub mod Planned
pub mod Next
pub mod BestOrder
pub mod Tests
