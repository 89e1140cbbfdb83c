pub mod OneLinkFits
