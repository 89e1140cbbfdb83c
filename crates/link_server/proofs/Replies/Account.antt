-- Links that hold the same keep the same account.
use Rattle.std.proofs.Common.{◌≡◌, ℕ, List, [], None, ap, ◌∙◌}
use Rattle.link_server.proofs.Words.{AccountRow, empty_account, account, QueueAccount}

-- queues that agree in each part are the same
pub queue-same : (queue other : QueueAccount) → queue.taken ≡ other.taken → queue.here ≡ other.here → queue.on ≡ other.on → queue.best ≡ other.best → queue.room ≡ other.room → queue.looked ≡ other.looked → queue.bounds ≡ other.bounds → queue.rate ≡ other.rate → queue ≡ other
queue-same queue other taken here on best room looked bounds rate = λ i. record { taken = taken i; here = here i; on = on i; best = best i; room = room i; looked = looked i; bounds = bounds i; rate = rate i }

-- a link without rows and packets keeps nothing
pub account-nothing : (room rate : ℕ) (bounds : List ℕ) (queue : QueueAccount) (rows : List AccountRow) → queue ≡ record { taken = 0; here = []; on = None; best = []; room = room; looked = 0; bounds = bounds; rate = rate } → rows ≡ [] → account 0 queue rows ≡ empty_account
account-nothing room rate bounds queue rows kept none = ap (λ q. account 0 q rows) kept ∙ ap (account 0 (record { taken = 0; here = []; on = None; best = []; room = room; looked = 0; bounds = bounds; rate = rate })) none
