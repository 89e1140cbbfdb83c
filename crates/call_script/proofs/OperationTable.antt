-- What the table says of each operation: which task it makes, and what it is to one channel. The proofs that go by the five
-- operations stand here, so one more line of the table takes one more line of each; what follows from them goes by the roles.
use Rattle.std.proofs.Common.{◌≡◌, ◌≢◌, ℕ, ◌<◌, Option, Some, None, List, [], ◌∷◌, length, refl, sym, ap, ◌∙◌, inl, inr, nat_eq, option_map}
use Rattle.std.proofs.lemmas.Bool.{cases_Bool, eqb-true, eqb-false}
use Rattle.std.specs.List.{slice_get}
use Rattle.net_units.specs.Numbers.{channel_number}
use Rattle.net_units.specs.declared.numbers.ChanNo.{ChanNo}
use Rattle.net_units.specs.declared.numbers.LinkNo.{LinkNo}
use Rattle.hop_reservation.specs.declared.route.Hop.{Hop}
use Rattle.link_steps.specs.Lists.{Each}
use Rattle.setup_protocol.specs.declared.request.Request.{Request}
use Rattle.call_script.specs.Operations.{attributes_of}
use Rattle.call_script.specs.Owners.{TaskOff}
use Rattle.call_script.specs.Rules.{named}
use Rattle.call_script.specs.Tasks.{send_on, task_for, move_for, task_of, with_task, tasks_of}
use Rattle.call_script.specs.declared.attributes.Way.{Way}
use Rattle.call_script.specs.declared.attributes.Way.TheVariants.{Nowhere, OverRoute, OverLink}
use Rattle.call_script.specs.declared.entries.RequestEntry.{RequestEntry}
use Rattle.call_script.specs.declared.operations.Op.{Op}
use Rattle.call_script.specs.declared.operations.Op.TheVariants.{Open, Send, Close, Move}
use Rattle.call_script.specs.declared.roles.Role.{Role}
use Rattle.call_script.specs.declared.roles.Role.TheVariants as role
use Rattle.call_script.specs.declared.tasks.Task.{Task}
use Rattle.call_script.specs.declared.tasks.Task.TheVariants.{Opens, Sends, Closes, Moves}

-- ---- the task of an operation

-- it is so of a channel, if there is one
abbrev pub ChannelIf : (ℕ → Type 0) → Option ChanNo → Type 0
ChannelIf N None = Unit {0}
ChannelIf N (Some chan) = N (channel_number chan)

-- and of a task
abbrev pub TaskIf : (Task → Type 0) → Option Task → Type 0
TaskIf P None = Unit {0}
TaskIf P (Some task) = P task

-- the channels that an operation names are such
pub record NamesOnly (N : ℕ → Type 0) (op : Op) : Type 0 where
  pub opens : ChannelIf N (attributes_of op).opens
  pub uses : ChannelIf N (attributes_of op).uses
  pub joins : ChannelIf N (attributes_of op).joins

-- it holds of each task that the requests of such channels may make
pub record HoldsOf (N : ℕ → Type 0) (P : Task → Type 0) (requests : List Request) : Type 0 where
  pub opens : (n : ℕ) (request : Request) → N n → slice_get requests n ≡ Some request → P (Opens request)
  pub sends : (n : ℕ) (request : Request) (link : LinkNo) (count gap size : ℕ) → N n → slice_get requests n ≡ Some request
      → P (Sends link (Some request.chan) count gap size)
  pub closes : (n : ℕ) (request : Request) → N n → slice_get requests n ≡ Some request → P (Closes request)
  pub pours : (link : LinkNo) (count gap size : ℕ) → P (Sends link None count gap size)
  pub moves : (o n : ℕ) (old new : Request) → N o → N n → slice_get requests o ≡ Some old → slice_get requests n ≡ Some new
      → P (Moves old new 1 1)

-- so it holds of the task of an operation that names such channels
pub task-holds : (N : ℕ → Type 0) (P : Task → Type 0) (requests : List Request) → HoldsOf N P requests → (op : Op) → NamesOnly N op
    → TaskIf P (task_of requests op)
task-holds N P requests holds (Open chan) names = found (slice_get requests (channel_number chan)) refl where
  found : (request : Option Request) → slice_get requests (channel_number chan) ≡ request → TaskIf P (option_map (λ (r : Request). Opens r) request)
  found None is = tt
  found (Some request) is = holds.opens (channel_number chan) request names.opens is
task-holds N P requests holds (Send chan count gap size) names = found (slice_get requests (channel_number chan)) refl where
  at-first : (request : Request) → slice_get requests (channel_number chan) ≡ Some request → (hop : Option Hop)
      → TaskIf P (option_map (λ (h : Hop). Sends h.link (Some request.chan) count gap size) hop)
  at-first request is None = tt
  at-first request is (Some hop) = holds.sends (channel_number chan) request hop.link count gap size names.uses is

  found : (request : Option Request) → slice_get requests (channel_number chan) ≡ request → TaskIf P (task_for (send_on count gap size) request)
  found None is = tt
  found (Some request) is = at-first request is (slice_get request.route 0)
task-holds N P requests holds (Close chan) names = found (slice_get requests (channel_number chan)) refl where
  found : (request : Option Request) → slice_get requests (channel_number chan) ≡ request → TaskIf P (option_map (λ (r : Request). Closes r) request)
  found None is = tt
  found (Some request) is = holds.closes (channel_number chan) request names.uses is
task-holds N P requests holds (Move old new) names = found (slice_get requests (channel_number old)) (slice_get requests (channel_number new)) refl refl where
  found : (from to : Option Request) → slice_get requests (channel_number old) ≡ from → slice_get requests (channel_number new) ≡ to
      → TaskIf P (move_for from to)
  found None to was is = tt
  found (Some from) None was is = tt
  found (Some from) (Some to) was is = holds.moves (channel_number old) (channel_number new) from to names.uses names.joins was is
task-holds N P requests holds _ names = holds.pours _ _ _ _

-- with it what holds of the tasks that follow holds of all
pub with-task : (P : Task → Type 0) (Q : List Task → Type 0) (task : Option Task) (tasks : List Task) → TaskIf P task
    → ((own : Task) → P own → Q (own ∷ tasks)) → Q tasks → Q (with_task task tasks)
with-task P Q None tasks holds one rest = rest
with-task P Q (Some task) tasks holds one rest = one task holds

-- it holds of the tasks of any operations
pub tasks-hold : (P : Task → Type 0) (requests : List Request) → HoldsOf (λ n. Unit {0}) P requests → (ops : List Op) → Each P (tasks_of requests ops)
unfolding tasks_of
tasks-hold P requests holds [] = tt
tasks-hold P requests holds (op ∷ ops) =
    let rest = tasks-hold P requests holds ops in
    with-task P (Each P) (task_of requests op) (tasks_of requests ops) (task-holds (λ n. Unit {0}) P requests holds op any) (λ own one. (one, rest)) rest where
      some : (chan : Option ChanNo) → ChannelIf (λ n. Unit {0}) chan
      some None = tt
      some (Some chan) = tt

      any : NamesOnly (λ n. Unit {0}) op
      any = record { opens = some (attributes_of op).opens; uses = some (attributes_of op).uses; joins = some (attributes_of op).joins }

-- ---- operations of another channel

abbrev pub OpOff : ℕ → Op → Type 0
OpOff c op = NamesOnly (λ n. n ≢ c) op

-- each request has the number of its place
abbrev pub AreInOrder : List Request → Type 0
AreInOrder requests = (n : ℕ) (request : Request) → slice_get requests n ≡ Some request → channel_number request.chan ≡ n

pub task-off : (c : ℕ) (requests : List Request) (op : Op) → AreInOrder requests → OpOff c op → TaskIf (TaskOff c) (task_of requests op)
task-off c requests op ordered off = task-holds (λ n. n ≢ c) (TaskOff c) requests (record {
  opens = λ n request other found. apart n request other found;
  sends = λ n request link count gap size other found. apart n request other found;
  closes = λ n request other found. apart n request other found;
  pours = λ link count gap size. tt;
  moves = λ o n old new other also leaves joins. (apart o old other leaves, apart n new also joins);
}) op off where
  apart : (n : ℕ) (request : Request) → n ≢ c → slice_get requests n ≡ Some request → channel_number request.chan ≢ c
  apart n request other found = λ same. other (sym (ordered n request found) ∙ same)

-- ---- what an operation is to one channel

-- the channels that are left and joined are two
abbrev pub AreApart : Option ChanNo → Option ChanNo → Type 0
AreApart None joins = Unit {0}
AreApart (Some old) None = Unit {0}
AreApart (Some old) (Some new) = channel_number old ≢ channel_number new

abbrev pub IsApartMove : Op → Type 0
IsApartMove op = AreApart (attributes_of op).leaves (attributes_of op).joins

-- it is this to the channel
abbrev pub IsTo : Role → ℕ → Op → Type 0
IsTo role c op = named role op ≡ Some c

-- it makes this task, if it makes one
abbrev pub Makes : Op → (List Request → Option Task) → Type 0
Makes op task = (requests : List Request) → task_of requests op ≡ task requests

-- it names the channel not, or makes a task of its request
pub data OpIs (c : ℕ) (op : Op) : Type 0 where
  IsOff : OpOff c op → OpIs c op
  Opening : IsTo role.Opens c op → Makes op (λ requests. option_map (λ (r : Request). Opens r) (slice_get requests c)) → OpIs c op
  Sending : (count gap size : ℕ) → IsTo role.Uses c op → IsTo role.Keeps c op
      → Makes op (λ requests. task_for (send_on count gap size) (slice_get requests c)) → OpIs c op
  Closing : IsTo role.Uses c op → IsTo role.Closes c op
      → Makes op (λ requests. option_map (λ (r : Request). Closes r) (slice_get requests c)) → OpIs c op
  Leaving : (n : ℕ) → n ≢ c → IsTo role.Uses c op → IsTo role.Keeps c op → IsTo role.Leaves c op
      → Makes op (λ requests. move_for (slice_get requests c) (slice_get requests n)) → OpIs c op
  Joining : (o : ℕ) → o ≢ c → IsTo role.Joins c op → Makes op (λ requests. move_for (slice_get requests o) (slice_get requests c)) → OpIs c op

pub op-is : (c : ℕ) (op : Op) → IsApartMove op → OpIs c op
op-is c (Open chan) apart = elim (cases_Bool (nat_eq (channel_number chan) c)) [
  | inl same ↦ (let is = eqb-true (channel_number chan) c same in
      Opening (ap Some is) (λ requests. ap (λ (n : ℕ). option_map (λ (r : Request). Opens r) (slice_get requests n)) is))
  | inr other ↦ IsOff (record { opens = eqb-false (channel_number chan) c other; uses = tt; joins = tt })
]
op-is c (Send chan count gap size) apart = elim (cases_Bool (nat_eq (channel_number chan) c)) [
  | inl same ↦ (let is = eqb-true (channel_number chan) c same in
      Sending count gap size (ap Some is) (ap Some is) (λ requests. ap (λ (n : ℕ). task_for (send_on count gap size) (slice_get requests n)) is))
  | inr other ↦ IsOff (record { opens = tt; uses = eqb-false (channel_number chan) c other; joins = tt })
]
op-is c (Close chan) apart = elim (cases_Bool (nat_eq (channel_number chan) c)) [
  | inl same ↦ (let is = eqb-true (channel_number chan) c same in
      Closing (ap Some is) (ap Some is) (λ requests. ap (λ (n : ℕ). option_map (λ (r : Request). Closes r) (slice_get requests n)) is))
  | inr other ↦ IsOff (record { opens = tt; uses = eqb-false (channel_number chan) c other; joins = tt })
]
op-is c (Move old new) apart = elim (cases_Bool (nat_eq (channel_number old) c)) [
  | inl same ↦ (let is = eqb-true (channel_number old) c same in
      Leaving (channel_number new) (λ also. apart (is ∙ sym also)) (ap Some is) (ap Some is) (ap Some is)
      (λ requests. ap (λ (n : ℕ). move_for (slice_get requests n) (slice_get requests (channel_number new))) is))
  | inr other ↦ elim (cases_Bool (nat_eq (channel_number new) c)) [
    | inl same ↦ (let is = eqb-true (channel_number new) c same in
        Joining (channel_number old) (eqb-false (channel_number old) c other) (ap Some is)
        (λ requests. ap (λ (n : ℕ). move_for (slice_get requests (channel_number old)) (slice_get requests n)) is))
    | inr neither ↦ IsOff (record { opens = tt; uses = eqb-false (channel_number old) c other; joins = eqb-false (channel_number new) c neither })
  ]
]
op-is c _ apart = IsOff (record { opens = tt; uses = tt; joins = tt })

-- ---- the requests that it needs

-- the requests that the operation uses and joins are there
abbrev pub IsThere : List RequestEntry → Option ChanNo → Type 0
IsThere requests chan = ChannelIf (λ n. n < length requests) chan

abbrev pub HasHops : List RequestEntry → Op → Type 0
HasHops requests op = IsThere requests (attributes_of op).uses × IsThere requests (attributes_of op).joins

abbrev pub WayIsThere : List RequestEntry → Way → Type 0
WayIsThere requests Nowhere = Unit {0}
WayIsThere requests (OverRoute chan) = channel_number chan < length requests
WayIsThere requests (OverLink link) = Unit {0}

-- its packets go over the hops of one of them
pub way-there : (requests : List RequestEntry) (op : Op) → HasHops requests op → WayIsThere requests (attributes_of op).way
way-there requests (Send chan count gap size) there = there.0
way-there requests (Move old new) there = there.1
way-there requests _ there = tt

-- and it leaves one that it uses
pub leaves-there : (requests : List RequestEntry) (op : Op) → HasHops requests op → IsThere requests (attributes_of op).leaves
leaves-there requests (Move old new) there = there.0
leaves-there requests _ there = tt
