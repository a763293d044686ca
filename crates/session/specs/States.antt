-- What a session keeps. Assumes nothing.
use Rattle.std.specs.Prelude.{◌≡◌, ℕ, Bool, true, false, Some, None, Option}
use Rattle.order.specs.declared.sale.Sale.{Sale}
use Rattle.order.specs.declared.sale.Quote.{Quote}
use Rattle.order.specs.Kinds.{is_price}
use Rattle.order.specs.Sales.{sound_quote}
use Rattle.clock.specs.Phases.{is_time}

-- the time in seconds after midnight, the last sale with its tick, the quote, and whether the session is done
pub record State : Type 0 where
  pub time : ℕ
  pub sale : Option Sale
  pub quote : Quote
  pub done : Bool

-- no bid and no offer
abbrev pub no_quote : Quote
no_quote = record { bid = 0; offer = 0 }

-- a session that has just opened
abbrev pub opened : State
opened = record { time = 0; sale = None; quote = no_quote; done = false }

-- a last sale is within its limits
abbrev pub sound_sale : Option Sale → Bool
sound_sale None = true
sound_sale (Some last) = is_price last.price

-- a time, a last sale and a quote are within their limits
pub record InLimits (time : ℕ) (sale : Option Sale) (quote : Quote) : Type 0 where
  pub time_in_limits : is_time time ≡ true
  pub sale_in_limits : sound_sale sale ≡ true
  pub quote_in_limits : sound_quote quote ≡ true
