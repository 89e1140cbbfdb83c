mod TableRows
mod TrailsOfRows
