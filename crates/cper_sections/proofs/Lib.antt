pub mod FieldLemmas
pub mod RowLemmas
pub mod TableLemmas
pub mod TextLemmas
