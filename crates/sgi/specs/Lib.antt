pub mod Sgi
