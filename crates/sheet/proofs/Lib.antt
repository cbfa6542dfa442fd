mod Records
mod Offers
mod Handing
mod Asking
mod Printing
mod Sheets
