pub mod NutationRange
