pub mod FuncText
