-- Where a part that is handed out lies.
pub mod Parts
