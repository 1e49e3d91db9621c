mod DecimalDigits
mod Parts
