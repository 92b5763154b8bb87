pub mod Lowered
pub mod Amounts
pub mod Balances
pub mod Tables
pub mod Receipts
pub mod Sums
pub mod Payments
