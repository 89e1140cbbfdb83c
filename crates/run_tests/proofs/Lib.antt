mod EarlyRun
