pub mod EndLines
