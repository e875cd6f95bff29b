pub mod MadeStatements
