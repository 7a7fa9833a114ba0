pub mod PieceLemmas
pub mod LineLemmas
pub mod NameLemmas
pub mod WordLemmas
pub mod ControlLemmas
pub mod TypeListLemmas
pub mod NumberLemmas
