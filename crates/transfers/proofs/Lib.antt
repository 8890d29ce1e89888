-- What holds of transfers.
pub mod CountLaws
pub mod Laws
