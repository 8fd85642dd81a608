-- What private contracts cite.
pub mod Inside
