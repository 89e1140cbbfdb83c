mod WorkedRaces
