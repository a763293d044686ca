-- The last sale with its tick, and the reference price. Assumes nothing.
use Rattle.std.specs.Prelude.{ℕ, Bool, if◌then◌else◌, not, ◌&&◌, ◌||◌, Some, None, Option, ◌==◌, nat_lt}
use Rattle.order.specs.declared.sale.Tick.{Tick}
use Rattle.order.specs.declared.sale.Tick.TheVariants.{Plus, Minus}
use Rattle.order.specs.declared.sale.Sale.{Sale}
use Rattle.order.specs.declared.sale.Quote.{Quote}
use Rattle.order.specs.Kinds.{is_price}

-- the first sale is a plus tick; a later one is plus if above the sale before, minus if below, and an equal one keeps the tick
abbrev pub tick_after : Option Sale → ℕ → Tick
tick_after None p = Plus
tick_after (Some before) p = (if nat_lt before.price p then Plus else (if nat_lt p before.price then Minus else before.tick))

-- the last sale once there was one at p
abbrev pub sale_after : Option Sale → ℕ → Sale
sale_after before p = record { price = p; tick = tick_after before p }

-- the reference price: the last sale, but the bid if the last sale is below it, and the offer if the last sale is above it; a bid or an
-- offer of 0 is absent. Where a bid is above the last sale and an offer below it, the bid counts
abbrev pub reference : ℕ → Quote → ℕ
reference last q = (if nat_lt last q.bid then q.bid else (if not (q.offer == 0) && nat_lt q.offer last then q.offer else last))

-- a bid or an offer: a price, or 0 for an absent one
abbrev pub is_quoted : ℕ → Bool
is_quoted p = p == 0 || is_price p

-- a quote is in order: bid and offer are within their limits, and the bid is below the offer when neither is 0
abbrev pub sound_quote : Quote → Bool
sound_quote q = is_quoted q.bid && is_quoted q.offer && (q.bid == 0 || q.offer == 0 || nat_lt q.bid q.offer)
