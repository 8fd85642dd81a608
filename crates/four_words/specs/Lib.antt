-- Words of lists and of vectors.
pub mod Words
pub mod Inside
