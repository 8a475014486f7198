pub mod AsciiNames
