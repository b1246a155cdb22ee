pub mod InferLaws
