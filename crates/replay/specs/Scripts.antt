-- The steps that the orders of a dealer ask for, and which orders a desk takes. Assumes nothing.
use Rattle.std.specs.Prelude.{◌≡◌, ℕ, Bool, true, false, List, [], ◌∷◌, ◌++◌, map, Some, None, Option, is_some}
use Rattle.std.specs.declared.convert.Infallible.{Infallible}
use Rattle.tops.specs.declared.call.Call.TheVariants as calls
use Rattle.tops.specs.declared.call.TrialCall.{TrialCall}
use Rattle.tops.specs.declared.call.TrialCall.TheVariants as trials
use Rattle.surcharges.specs.declared.setting.Setting.{Setting}
use Rattle.histories.specs.declared.step.Step.{Step}
use Rattle.histories.specs.declared.step.Step.TheVariants as steps
use Rattle.replay.specs.declared.order.Order.{Order}
use Rattle.replay.specs.declared.order.Order.TheVariants.{Book, Commit, Drop, Surcharge, Deposit}
use Rattle.replay.specs.declared.order.Desk.{Desk}
use Rattle.replay.specs.declared.order.Desk.TheVariants.{Rates, Pairs, Journal, Layered, Stacked}
use Rattle.replay.specs.declared.order.PassedOver.{PassedOver}
use Rattle.replay.specs.declared.order.PassedOver.TheVariants.{NoDeskCan}

-- the call of a trial layer that an order asks for
abbrev pub trial_call : Order → Option TrialCall
trial_call (Book b) = None
trial_call Commit = Some trials.Commit
trial_call Drop = Some trials.Drop
trial_call (Surcharge s) = None
trial_call (Deposit classes matches) = None

-- the setting of a surcharge
abbrev pub setting : Order → Option Setting
setting (Book b) = None
setting Commit = None
setting Drop = None
setting (Surcharge s) = Some s
setting (Deposit classes matches) = None

-- a top with no calls of its own is asked for none
abbrev pub no_call : Order → Option Infallible
no_call order = None

-- a call of the top of the book, or else one of the top of the sheet
abbrev pub own_step : {O P : Type 0} → Option O → Option P → Option (Step O P)
own_step (Some o) p = Some (steps.Book (calls.Own o))
own_step None (Some p) = Some (steps.Sheet p)
own_step None None = None

-- what an order asks for, of tops whose own calls are asked for as f and g say
abbrev pub step_of : {O P : Type 0} → (Order → Option O) → (Order → Option P) → Order → Option (Step O P)
step_of f g (Book b) = Some (steps.Book (calls.Book b))
step_of f g Commit = own_step (f Commit) (g Commit)
step_of f g Drop = own_step (f Drop) (g Drop)
step_of f g (Surcharge s) = own_step (f (Surcharge s)) (g (Surcharge s))
step_of f g (Deposit classes matches) = Some (steps.Deposit classes matches)

module _ {O P : Type 0} (f : Order → Option O) (g : Order → Option P) where
  -- at each place stands the step that the order there asks for, and there are as many
  abbrev pub Beside : List Order → List (Step O P) → Type 0
  Beside orders script = map (λ step. Some step) script ≡ map (step_of f g) orders

  -- this order is one of them, every order before it has a step, and the tops have no call for it
  pub record NoCall (orders : List Order) (order : Order) : Type 0 where
    pub none : step_of f g order ≡ None
    pub before : List Order
    pub script : List (Step O P)
    pub beside : Beside before script
    pub rest : List Order
    pub among : orders ≡ before ++ order ∷ rest

-- whether a desk has a call for an order
abbrev pub has_call : Desk → Order → Bool
has_call Rates order = is_some (step_of trial_call no_call order)
has_call Pairs order = is_some (step_of trial_call setting order)
has_call Journal order = is_some (step_of no_call no_call order)
has_call Layered order = is_some (step_of trial_call no_call order)
has_call Stacked order = is_some (step_of trial_call setting order)

-- whether the open desk has, if one is open
abbrev pub open_has_call : Option Desk → Order → Bool
open_has_call (Some desk) order = has_call desk order
open_has_call None order = false

-- An order on a line is kept behind those before it; or the open desk has no call for it, and it is said that the line is
-- passed over.
abbrev pub Kept : Option Desk → ℕ → Order → List Order → Option PassedOver → List Order → Type 0
Kept desk line order before None after = (open_has_call desk order ≡ true) × (after ≡ before ++ order ∷ [])
Kept desk line order before (Some passed) after =
    (open_has_call desk order ≡ false) × (passed ≡ NoDeskCan line order) × (after ≡ before)
