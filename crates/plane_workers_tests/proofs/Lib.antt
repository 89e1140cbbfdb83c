mod TwoLinks
