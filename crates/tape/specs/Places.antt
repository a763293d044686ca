-- What a session is lent: its two lists and the two work lists of its close, and how many places these have. Assumes nothing.
use Rattle.std.specs.Prelude.{ℕ, false, pos, List, length, replicate}
use Rattle.list.specs.declared.List.{List as Held}
use Rattle.list.specs.Held.{contents}
use Rattle.order.specs.declared.kind.Kind.TheVariants.{Crowd}
use Rattle.order.specs.declared.kind.Row.{Row}
use Rattle.order.specs.declared.kind.Side.TheVariants.{Buy}
use Rattle.order.specs.Entered.{unfilled_row}
use Rattle.session.specs.declared.notice.Notice.{Notice}
use Rattle.life.specs.Stages.{Stage, at_opening}

-- the two lists and the two work lists
pub record Lists : Type 0 where
  pub orders : Held Row
  pub notices : Held Notice
  pub claims : List ℕ
  pub gifts : List ℕ

abbrev pub lists : Held Row → Held Notice → List ℕ → List ℕ → Lists
lists orders notices claims gifts = record { orders = orders; notices = notices; claims = claims; gifts = gifts }

-- those that stand between two calls
abbrev pub lists_at : Stage → Lists
lists_at st = lists st.moment.orders st.moment.notices st.work.claims st.work.gifts

-- a session has just opened on them
abbrev pub opening : Lists → Stage
opening l = at_opening l.orders l.notices l.claims l.gifts

-- how many places there are for orders, for notices, for claims and for gifts
pub record Places : Type 0 where
  pub orders : ℕ
  pub notices : ℕ
  pub claims : ℕ
  pub gifts : ℕ

abbrev pub places_of : Lists → Places
places_of l = record { orders = length (contents l.orders); notices = length (contents l.notices); claims = length l.claims; gifts = length l.gifts }

-- what lies in a place for an order before one does
abbrev pub blank_row : Row
blank_row = unfilled_row 0 Crowd Buy false 0 0

-- what lies in a place for a notice before one does
abbrev pub blank_notice : Notice
blank_notice = record { amount = pos 0; reference = 0; mandatory = false }

-- an empty list of so many places; where its memory lies makes no difference to a tape
abbrev pub blank_list : {T : Type 0} → ℕ → T → Held T
blank_list places blank = record { places = record { ref_ptr = (0, 0); ghost_name = 0; now = replicate places blank }; count = 0 }

-- lists and work lists of so many places, in which nothing lies yet
abbrev pub blank_lists : Places → Lists
blank_lists p = lists (blank_list p.orders blank_row) (blank_list p.notices blank_notice) (replicate p.claims 0) (replicate p.gifts 0)
