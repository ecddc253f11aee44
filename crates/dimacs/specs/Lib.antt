pub mod Words
pub mod Numbers
pub mod Reading
pub mod Records
pub mod Printing
pub mod Printers
pub mod Scanning
