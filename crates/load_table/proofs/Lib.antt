mod WorkOfRows
