pub mod FormulasOfLists
