mod ClockForms
mod DateForms
mod DigitForms
mod MoreDigits
mod Steps
mod TimeForms
