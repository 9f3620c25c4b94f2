pub mod Urls
