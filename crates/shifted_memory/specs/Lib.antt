pub mod Shifted
