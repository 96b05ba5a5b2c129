pub mod PairAnswered
