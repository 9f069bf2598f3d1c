mod Digits
mod Numerals
mod RoundTrip
