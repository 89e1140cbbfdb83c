mod SeatsUnused
