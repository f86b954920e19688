-- What the writer's answers mean.
pub mod Answers
