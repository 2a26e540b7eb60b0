mod Descent
mod Heading
mod Knowing
mod Going
mod Taking
