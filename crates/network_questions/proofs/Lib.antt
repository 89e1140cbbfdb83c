mod RowsSoFar
