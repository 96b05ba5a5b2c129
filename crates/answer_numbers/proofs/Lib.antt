pub mod AnswerNumberLaws
