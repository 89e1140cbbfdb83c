mod RunsInTime
