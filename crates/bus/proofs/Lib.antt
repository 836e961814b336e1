mod Ids
pub mod Clauses
pub mod Courses
