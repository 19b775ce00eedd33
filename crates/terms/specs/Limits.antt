-- The limits of the module. Assumes nothing.
use Rattle.std.specs.Prelude.{ℕ}

-- securities and classes are numbered from 0
abbrev pub security_count : ℕ
security_count = 256

abbrev pub class_count : ℕ
class_count = 64

-- the most pairs of a sheet
abbrev pub pair_limit : ℕ
pair_limit = 32

-- the most bookings of a net table or a journal, and of a trial layer between two commits or drops
abbrev pub booking_limit : ℕ
booking_limit = 4096

abbrev pub trial_limit : ℕ
trial_limit = 1000

-- a net, and the quantity of a booking, are at most this far from 0
abbrev pub net_limit : ℕ
net_limit = 100000000

abbrev pub quantity_limit : ℕ
quantity_limit = 200000000

-- 100% in units of 10^-5 of the whole
abbrev pub whole : ℕ
whole = 100000

-- the highest price and currency rate, in 10^-4 of a currency unit and of a zloty
abbrev pub price_limit : ℕ
price_limit = 300000000

abbrev pub rate_limit : ℕ
rate_limit = 200000

-- durations in 10^-6: the longest, that of every security of a liquidity class, and the least that counts
abbrev pub duration_limit : ℕ
duration_limit = 30000000

abbrev pub duration_one : ℕ
duration_one = 1000000

abbrev pub duration_floor : ℕ
duration_floor = 500000

-- the largest amount of a position, in 10^-4 zloty
abbrev pub amount_limit : ℕ
amount_limit = 100000000000000

-- the longest text, and the least memory for its answer, in bytes
abbrev pub text_limit : ℕ
text_limit = 65536

abbrev pub answer_memory : ℕ
answer_memory = 5500
