-- The kinds and sides of orders: their letters, and which prices and marks a kind takes. Assumes nothing.
use Rattle.std.specs.Prelude.{ℕ, Bool, true, false, not, ◌&&◌, ◌||◌, ◌==◌, nat_le}
use Rattle.order.specs.declared.kind.Kind.{Kind}
use Rattle.order.specs.declared.kind.Kind.TheVariants.{MarketOnClose, Crowd, LimitOnClose, Book, MarketMaker, ClosingOffset, Yielding, Stop}
use Rattle.order.specs.declared.kind.Side.{Side}
use Rattle.order.specs.declared.kind.Side.TheVariants.{Buy, Sell}

-- the letter of a kind, by its ASCII code
abbrev pub kind_letter : Kind → ℕ
kind_letter MarketOnClose = 77  -- M
kind_letter Crowd = 67  -- C
kind_letter LimitOnClose = 76  -- L
kind_letter Book = 66  -- B
kind_letter MarketMaker = 68  -- D
kind_letter ClosingOffset = 79  -- O
kind_letter Yielding = 71  -- G
kind_letter Stop = 83  -- S

-- the letter of a side
abbrev pub side_letter : Side → ℕ
side_letter Buy = 66  -- B
side_letter Sell = 83  -- S

-- the two sides face each other
abbrev pub facing : Side → Side
facing Buy = Sell
facing Sell = Buy

-- whether two sides are one
abbrev pub is : Side → Side → Bool
is Buy Buy = true
is Buy Sell = false
is Sell Buy = false
is Sell Sell = true

-- a price: 1 to 9,999,999 cents
abbrev pub is_price : ℕ → Bool
is_price p = nat_le 1 p && nat_le p 9999999

-- a size: 1 to 10,000,000 shares
abbrev pub is_size : ℕ → Bool
is_size n = nat_le 1 n && nat_le n 10000000

-- an order number: 1 to 4,294,967,295
abbrev pub is_number : ℕ → Bool
is_number n = nat_le 1 n && nat_le n 4294967295

-- what the price field of a kind may hold: 0 for market on close and crowd interest, a limit or 0 for yielding orders, a trigger for
-- stops, and a limit for all others
abbrev pub priced : Kind → ℕ → Bool
priced MarketOnClose p = p == 0
priced Crowd p = p == 0
priced LimitOnClose p = is_price p
priced Book p = is_price p
priced MarketMaker p = is_price p
priced ClosingOffset p = is_price p
priced Yielding p = p == 0 || is_price p
priced Stop p = is_price p

-- market on close or limit on close
abbrev pub on_close : Kind → Bool
on_close MarketOnClose = true
on_close Crowd = false
on_close LimitOnClose = true
on_close Book = false
on_close MarketMaker = false
on_close ClosingOffset = false
on_close Yielding = false
on_close Stop = false

-- only those two may be marked
abbrev pub marks : Kind → Bool → Bool
marks kind marked = not marked || on_close kind
