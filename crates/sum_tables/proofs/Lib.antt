pub mod TablesPrinted
