mod Members
mod Picks
mod Listings
