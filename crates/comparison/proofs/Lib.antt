pub mod TrailSentences
