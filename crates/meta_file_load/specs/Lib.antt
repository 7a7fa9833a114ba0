pub mod ItemWhy
pub mod Why
