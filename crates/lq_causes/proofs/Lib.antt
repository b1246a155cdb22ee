pub mod StopLaws
