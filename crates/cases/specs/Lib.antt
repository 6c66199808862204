pub mod Browsing
