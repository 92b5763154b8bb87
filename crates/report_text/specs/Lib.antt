pub use Rattle.report_lines.specs.Text
pub mod People
pub mod Shares
pub mod Printed
pub mod Report
