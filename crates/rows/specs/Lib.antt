pub mod TypeRows
pub mod TypeTables
pub mod Expressions
pub mod Arms
pub mod Functions
pub mod Programs
