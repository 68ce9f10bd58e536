pub mod Asked
pub mod Origins
pub mod ServicePorts
pub mod Places
